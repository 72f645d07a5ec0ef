pub mod ZonePages
