mod BytesLemmas
mod CutLemmas
mod HexadecimalLemmas
pub mod Laws
pub mod LawsOfDigests
pub mod LawsOfNumbers
pub mod LawsOfTexts
pub mod LawsOfValues
mod NumberLemmas
mod ValueLemmas
