mod BitLemmas
mod ByteLemmas
mod CommonLemmas
mod CountLemmas
pub mod Laws
pub mod LawsOfBytes
pub mod LawsOfNumbers
mod Threads
