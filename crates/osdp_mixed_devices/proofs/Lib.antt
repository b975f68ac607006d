mod Same
mod Mixed
