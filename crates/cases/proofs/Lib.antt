pub mod Cases
mod Examples
mod ExamplesLargeRing
