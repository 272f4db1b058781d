-- Laws of the keys: places of equal points, what is beaten by keys, and the count over keys in order.
mod Places
mod Counting
mod Levels
mod Sieving
