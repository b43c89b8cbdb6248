pub mod LawsThreads
