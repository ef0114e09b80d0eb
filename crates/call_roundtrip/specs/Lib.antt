-- What filling, reading, home and views are to each other. Assumes nothing.
pub mod RoundTrip
pub mod Places
pub mod Views
