mod QueueLemmas
mod SlotLemmas
