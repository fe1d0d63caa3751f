pub mod ListedErrors
