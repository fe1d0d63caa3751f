pub mod SmallMaps
