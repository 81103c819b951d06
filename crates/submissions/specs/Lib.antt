pub mod Submissions
pub mod Requests
