-- The laws behind the proof of `audit`.
mod AuditLaws
