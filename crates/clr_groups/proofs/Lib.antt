mod Chains
pub mod GroupLaws
pub mod GroupParts
mod JoinedPairs
mod LabelSteps
pub mod LabelledGroups
mod MemberNeedLists
pub mod Places
pub mod TouchedPairs
pub mod TyingNeeds
