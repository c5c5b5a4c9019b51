pub mod ExpressionLaws
pub mod ExpressionSteps
pub mod Steps
pub mod LayerParts
pub mod Laws
pub mod Refused
pub mod Parts
