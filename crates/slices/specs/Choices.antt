-- Choices by a test.
use Rattle.std.specs.Prelude.{Bool, true, false}

-- Both of two tests.
unfoldable pub both : Bool → Bool → Bool
both true b = b
both false b = false

-- One of two tests, or both.
unfoldable pub either : Bool → Bool → Bool
either true b = true
either false b = b

-- The first of two where the test holds, else the second.
unfoldable pub pick : {A : Type 0} → Bool → A → A → A
pick true a b = a
pick false a b = b
