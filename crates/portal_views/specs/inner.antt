pub mod Base
pub mod Lines
pub mod Contents
pub mod Catalogue
pub mod Callers
pub mod Office
