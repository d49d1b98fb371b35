pub mod Settling
pub mod AllSettled
