-- Forms by the parts that the code reads one after the other.
use Rattle.std.specs.Prelude.{ℕ, ◌+◌, ◌*◌, Bool, cond, ◌&&◌, ◌||◌, leb, ltb, eqb, Option, Some, None, ℤ}
use Rattle.meaning.specs.Forms.{with_number, signed}

-- the digits' counts: p bytes before the point, n bytes in all
unfoldable pub pointed_at : ℕ → ℕ → Bool
pointed_at p n = leb 1 p && (leb p 3 && (leb n p || (leb (p + 2) n && leb n (p + 21))))

-- do whole degrees, with a decimal that isn't 0 where `some`, lie beyond a limit
unfoldable pub beyond : ℕ → ℕ → Bool → Bool
beyond limit w some = cond (eqb w limit) some (ltb limit w)

abbrev pub with_decimal : Option (ℕ × Bool) → (ℕ → Bool → Option ℤ) → Option ℤ
with_decimal (Some (n, some)) f = f n some
with_decimal None f = None

-- whole degrees and decimals as one coordinate
unfoldable pub sized : ℕ → Bool → Option ℕ → Option (ℕ × Bool) → Option ℤ
sized limit below whole tail =
    with_number None whole
    (λ w. with_decimal tail
    (λ n some. cond (beyond limit w some) None (Some (signed below (w * 10000000 + n)))))
