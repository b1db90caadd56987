-- "Versions (PEP 440, Appendix B, case ignored)": the Appendix's expression, which the reading is held to
pub mod Appendix
