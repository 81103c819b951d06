-- What a call of a list is among the library's calls
pub mod Told
-- The words of a list
pub mod Lists
-- What a list of them makes of members' words
pub mod Runs
-- How members open
pub mod Opened
-- What making a list again comes to
pub mod Replays
