-- Laws of the questions.
pub mod Asking
pub mod Joints
pub mod Audits
