-- What one more point leaves of the points held. No exported contract cites it.
pub mod Held
