-- What the exported walks of a dump answer. Assumes nothing.
pub mod Dump
