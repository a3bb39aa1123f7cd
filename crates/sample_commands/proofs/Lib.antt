pub mod Answering
pub mod Asking
pub mod CompareLaws
pub mod Deciding
pub mod Numbers
pub mod SampleLaws
pub mod Sampling
pub mod Telling
