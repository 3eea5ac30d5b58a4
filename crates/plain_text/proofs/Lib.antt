pub mod Cuts
pub mod FirstLines
pub mod Unescaped
pub mod Escaping
pub mod WhatIsRead
pub mod Digits
