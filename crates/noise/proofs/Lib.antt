-- The lemmas that the proofs share.
mod Channels
mod Lanes
mod Numbers
mod Seeds
mod Steps
