mod DegreeLemmas
mod LineLemmas
mod ReportLemmas
