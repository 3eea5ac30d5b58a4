pub mod FewLines
pub mod ScriptLoops
pub mod ReadLines
