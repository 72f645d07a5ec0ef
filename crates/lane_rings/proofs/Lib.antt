mod Candidates
mod HeadBytes
mod Postings
mod RingDone
mod RingSteps
mod RingUses
