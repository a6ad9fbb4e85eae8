-- Laws of `finding_rows`.
mod SlotLaws
