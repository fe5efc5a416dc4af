use Rattle.std.proofs.Common.{◌≡◌, ◌≢◌, ℕ, ◌<◌, ◌≤◌, false, List, [], ◌∷◌, length, refl, sym, subst, arith, ◌↔◌}
use Rattle.tc_term.specs.Layouts.{is_blank, ToLineEnd, at_end, at_line_feed, in_line, ClosesBlock, ToBlockEnd, at_block_end, in_block, Piece, blank, line, block, NoPiece, Layout, no_layout, layout}

-- Layout.

line_shorter : {s rest : List ℕ} → ToLineEnd s rest → length rest ≤ length s
line_shorter at_end = omega arith
line_shorter at_line_feed = omega arith
line_shorter (in_line n t) = omega (arith, line_shorter t)

block_shorter : {s rest : List ℕ} → ToBlockEnd s rest → length rest ≤ length s
block_shorter at_block_end = omega arith
block_shorter (in_block n t) = omega (arith, block_shorter t)

pub piece_shorter : {s rest : List ℕ} → Piece s rest → length rest < length s
piece_shorter (blank e) = omega arith
piece_shorter (line t) = omega (arith, line_shorter t)
piece_shorter (block t) = omega (arith, block_shorter t)

pub layout_shorter : {s rest : List ℕ} → Layout s rest → length rest ≤ length s
layout_shorter (no_layout n) = omega arith
layout_shorter (layout p l) = omega (arith, piece_shorter p, layout_shorter l)

-- one byte more of a line
pub line_goes_on : (b : ℕ) (s r : List ℕ) → b ≢ 10 → ToLineEnd s r → ToLineEnd (b ∷ s) r
line_goes_on b s r n t = in_line n t

pub line_feed_ends : (b : ℕ) (s : List ℕ) → b ≡ 10 → ToLineEnd (b ∷ s) s
line_feed_ends b s e = subst (λ x. ToLineEnd (x ∷ s) s) (sym e) at_line_feed

-- one byte more of a comment
block_from : {b : ℕ} {s r : List ℕ} → (ClosesBlock (b ∷ s) → ⊥) → ToBlockEnd (b ∷ s) r → ToBlockEnd s r
block_from n at_block_end = absurd (n (refl, refl))
block_from n (in_block k t) = t

pub block_goes_on : (b : ℕ) (s r : List ℕ) → (ClosesBlock (b ∷ s) → ⊥) → ToBlockEnd (b ∷ s) r ↔ ToBlockEnd s r
block_goes_on b s r n = (block_from n, in_block n)

pub block_closes : (b c : ℕ) (s : List ℕ) → b ≡ 42 → c ≡ 47 → ToBlockEnd (b ∷ c ∷ s) s
block_closes b c s e f = subst (λ x. ToBlockEnd (x ∷ c ∷ s) s) (sym e) (subst (λ y. ToBlockEnd (42 ∷ y ∷ s) s) (sym f) at_block_end)

pub no_block : (r : List ℕ) → ToBlockEnd [] r → ⊥
no_block r t = elim t [ ]

blank_no_line : is_blank 37 ≡ false
blank_no_line = refl

piece_blank : {b : ℕ} {s r : List ℕ} → is_blank b ≡ false → b ≢ 37 → b ≢ 47 → Piece (b ∷ s) r → ⊥
piece_blank f l k (blank e) = cc
piece_blank f l k (line t) = l refl
piece_blank f l k (block t) = k refl

pub no_piece : (b : ℕ) (s : List ℕ) → is_blank b ≡ false → b ≢ 37 → b ≢ 47 → NoPiece (b ∷ s)
no_piece b s f l k r p = piece_blank f l k p

pub no_piece_empty : NoPiece []
no_piece_empty r p = elim p [ ]

piece_slash : {c : ℕ} {s r : List ℕ} → ((r : List ℕ) → c ≡ 42 → ToBlockEnd s r → ⊥) → Piece (47 ∷ c ∷ s) r → ⊥
piece_slash n (blank e) = cc
piece_slash n (block t) = n _ refl t

pub no_piece_slash : (c : ℕ) (s : List ℕ) → ((r : List ℕ) → c ≡ 42 → ToBlockEnd s r → ⊥) → NoPiece (47 ∷ c ∷ s)
no_piece_slash c s n r p = piece_slash n p

slash_alone : {r : List ℕ} → Piece (47 ∷ []) r → ⊥
slash_alone (blank e) = cc

pub no_piece_slash_end : NoPiece (47 ∷ [])
no_piece_slash_end r p = slash_alone p
