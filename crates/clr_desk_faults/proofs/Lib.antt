mod LayerReportLemmas
mod PlaceLemmas
