-- The end of a quarter: what its writer still holds, zeros up to the end of the byte, and zero bytes, are the digits put out and zeros behind them.
use mathlib.Core.Path.{◌≡◌, sym, ◌∙◌, ap}
use mathlib.Core.List.{List, [], ◌++◌, append-nil, append_assoc}
use Prim.Native.Nat.{ℕ, ◌+◌, ◌*◌, ◌-◌, ◌≤◌}
use native.Mathlib.Omega.{arith}
use lib.ListN.{length, take, replicate, length-replicate, replicate-append-replicate}
use lib.Seq.{drop-length}
use borrow.Rule.Slice.PartMut.{mid_of, post_of, put_mid, mid_len, Post-is, same_len_mid}
use Rattle.digits.specs.Digits.{digits_of, bytes_of, Bytes, written}
use Rattle.digits.proofs.Laws.{digits_append, digits-zeros, bytes-of-digits}
use Rattle.words.specs.declared.Writer.{Writer}
use Rattle.words.specs.Words.{out_from, zeros_after, Finished}

module _ (old mid zs : List ℕ) (w r : Writer) (end : Finished old mid w r) (kept : length mid ≡ length old) (room : 8 * w.at + w.fill ≤ 8 * length old)
    (clear : zs ≡ replicate (length (mid_of r.at (length mid - r.at) mid)) 0) where
  abbrev new : List ℕ
  new = put_mid r.at (length mid - r.at) mid zs

  inside : r.at ≤ length mid
  inside = omega (arith, end.appended.place, end.none_held)

  cleared : zs ≡ replicate (length mid - r.at) 0
  cleared = clear ∙ ap (λ (n : ℕ). replicate n 0) (mid_len r.at (length mid) mid (omega arith))

  behind : post_of r.at (length mid - r.at) mid ≡ []
  behind = Post-is r.at (length mid) mid inside ∙ drop-length mid

  -- what the writer has put out, zeros to the end of its byte behind it
  stored : digits_of (take r.at mid) ≡ out_from 0 old w ++ replicate (zeros_after w.fill) 0
  unfolding out_from written
  stored = sym (append-nil (digits_of (take r.at mid))) ∙ (rw end.none_held at (end.appended.out 0 (omega arith)))

  digits : digits_of new ≡ out_from 0 old w ++ replicate (8 * length old - (8 * w.at + w.fill)) 0
  digits =
      let z = zeros_after w.fill in
      let all : z + 8 * (length mid - r.at) ≡ 8 * length old - (8 * w.at + w.fill) = omega (arith, end.appended.place, end.none_held) in
      rw (behind, cleared, append-nil (replicate {A = ℕ} (length mid - r.at) 0), digits_append (take r.at mid) (replicate (length mid - r.at) 0), digits-zeros (length mid - r.at), stored)
      (append_assoc (out_from 0 old w) (replicate z 0) (replicate (8 * (length mid - r.at)) 0)
      ∙ ap (λ (l : List ℕ). out_from 0 old w ++ l) (replicate-append-replicate z (8 * (length mid - r.at)) 0 ∙ ap (λ (n : ℕ). replicate n 0) all))

  pub quarter-ended : Bytes new → new ≡ bytes_of (length old) (out_from 0 old w ++ replicate (8 * length old - (8 * w.at + w.fill)) 0)
  quarter-ended bytes =
      let size : length new ≡ length old = same_len_mid r.at (length mid - r.at) mid zs (ap length clear ∙ length-replicate (length (mid_of r.at (length mid - r.at) mid)) 0) ∙ kept in
      sym (bytes-of-digits new bytes) ∙ rw (size, digits)
