mod Words
mod KnownLaws
mod TallyLaws
mod OutputLaws
mod CameLaws
mod ChainLaws
mod WaitLaws
mod DrawnLaws
mod TellLaws
mod SaidLaws
mod CountLaws
mod CoveredLaws
mod EarlierLaws
mod AuditLaws
pub mod LawProofs
