pub mod ConversionLemmas
pub mod ResultLemmas
pub mod ProductLemmas
pub mod DivisionLemmas
