-- What node-run holds, and what each of its turns comes to.
pub mod Buffers
pub mod Turns
