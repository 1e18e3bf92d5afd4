-- The polynomials of a transcript, in the order in which they come to stand: M, x, wl, wr, wo, r, q, h1, h2.
use Rattle.std.specs.Prelude.{ℕ}
use Rattle.equations.specs.declared.polynomial_name.Polynomial.{Polynomial}
use Rattle.equations.specs.declared.polynomial_name.Polynomial.TheVariants.{Matrix, Vector, Left, Right, Out, Remainder, Quotient, H1, H2}

-- the number of a polynomial, counted from 0
abbrev pub place_of : Polynomial → ℕ
place_of Matrix = 0
place_of Vector = 1
place_of Left = 2
place_of Right = 3
place_of Out = 4
place_of Remainder = 5
place_of Quotient = 6
place_of H1 = 7
place_of H2 = 8
