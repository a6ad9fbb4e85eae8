-- Laws of `policy_changes`.
mod Touched
mod PolicyChanged
