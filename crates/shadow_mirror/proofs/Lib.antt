mod Fronts
mod Adding
mod Docs
mod Places
mod Published
mod Sights
