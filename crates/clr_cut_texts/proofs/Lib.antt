mod CutsPlain
mod CutsRead
mod Listed
