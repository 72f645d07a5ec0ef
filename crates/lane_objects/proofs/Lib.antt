mod Joining
mod KeptMemories
mod MapSteps
mod MemorySteps
mod Parting
mod RoomSteps
mod Steady
mod TagSteps
