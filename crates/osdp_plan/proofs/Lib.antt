mod Judgement
mod Turns
mod Wires
