pub mod LawsReruns
