pub mod Reruns
pub mod RerunTexts
