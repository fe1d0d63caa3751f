mod LineEndLemmas
mod SilentPaths
