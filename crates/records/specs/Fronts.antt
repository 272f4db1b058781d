-- An archive with another front, and one whose front is not counted yet, as a call that writes leaves it for a moment. For the
-- contracts of inner functions; no exported contract cites it.
use Rattle.std.specs.Prelude.{ℕ}
use Rattle.words.specs.Archive.{Archive}

abbrev pub fronted : ℕ → Archive → Archive
fronted n a = record { shape = a.shape; sum = a.sum; front = n; rows = a.rows }

abbrev pub unfronted : Archive → Archive
unfronted a = fronted 0 a
