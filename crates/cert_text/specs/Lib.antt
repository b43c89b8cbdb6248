pub mod Certificates
pub mod CertificateTexts
pub mod Rules
pub mod Causes
pub mod Faults
