pub mod ReadingOn
