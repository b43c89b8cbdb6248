mod Loops
mod ParamTypes
mod ConstantLoop
mod Members
mod MemberFacts
pub mod LawsLeaving
mod TypesAgree
mod HeadFaults
