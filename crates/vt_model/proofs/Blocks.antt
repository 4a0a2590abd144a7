-- The history that the plain store's blocks stand for, where each is kept with its own score.
use Rattle.std.proofs.Common.{◌≡◌, ℕ, ◌&&◌, ◌||◌, ◌==◌, not, Bool, false, cond, List, [], get_or, Option, Some, None, refl, sym, ◌∙◌, ap}
use Rattle.std.specs.Prelude.{find}
use Rattle.std.specs.List.{list_any, count_by}
use Rattle.std.specs.Option.{option_map}
use Rattle.std.specs.Str.{bytes_eq}
use Rattle.vt_model.specs.declared.stored.Stored.{Stored}
use Rattle.vt_model.specs.History.{Accepted, has_key, held}
use Rattle.vt_model.specs.Places.{crowd, bucket_of}
use Rattle.vt_model.specs.Answer.{collides}
use Rattle.vt_model.specs.Stored.{accepted, history_of, AreScored}
use Rattle.vt_model.proofs.Lists.{find-map, list_any-map, count_by-map}

option_map-map : {X Y Z : Type 0} (f : X → Y) (g : Y → Z) (o : Option X)
    → option_map (λ x. g (f x)) o ≡ option_map g (option_map f o)
option_map-map f g None = refl
option_map-map f g (Some x) = refl

module _ (score : List ℕ → List ℕ) (blocks : List Stored) (scored : AreScored score blocks) where
  -- what is found among the blocks is held
  pub held_from_find : (s : List ℕ) (kind : ℕ) (found : Option Stored)
      → bytes_eq s (score []) ≡ false
      → found ≡ find (λ b. bytes_eq b.key.score.0 s && b.key.kind == kind) blocks
      → option_map (λ b. b.bytes) found ≡ held score (history_of blocks) s kind
  held_from_find s kind found nonzero is =
      let q : Stored → Bool = λ b. bytes_eq b.key.score.0 s && b.key.kind == kind in
      let bytes_of : Accepted → List ℕ = λ e. e.block.bytes in
      let same = find-map accepted (has_key score s kind) q blocks
      (λ k d lt. ap (λ own. bytes_eq own s && (get_or blocks k d).key.kind == kind)
      (sym (scored k d lt))) in
      let all = option_map-map accepted bytes_of found
      ∙ ap (λ o. option_map bytes_of (option_map accepted o)) is
      ∙ ap (option_map bytes_of) (sym same) in
      all ∙ sym
      (ap (λ t. cond t (Some [])
      (option_map bytes_of (find (has_key score s kind) (history_of blocks)))) nonzero)

  pub collides_from_any : (s bytes : List ℕ) → s ≡ score bytes → bytes_eq s (score []) ≡ false
      → list_any
      (λ b. bytes_eq b.key.score.0 s && not (bytes_eq b.bytes bytes)) blocks ≡ collides score
      (history_of blocks) bytes
  collides_from_any s bytes is nonzero =
      let clashes : List ℕ → Accepted
      → Bool = λ s e. bytes_eq (score e.block.bytes) s && not (bytes_eq e.block.bytes bytes) in
      sym (list_any-map accepted (clashes s)
      (λ b. bytes_eq b.key.score.0 s && not (bytes_eq b.bytes bytes)) blocks
      (λ k d lt. ap (λ own. bytes_eq own s && not (bytes_eq (get_or blocks k d).bytes bytes))
      (sym (scored k d lt))))
      ∙ ap (λ t. t || list_any (clashes s) (history_of blocks)) (sym nonzero)
      ∙ ap (λ s. bytes_eq s (score []) || list_any (clashes s) (history_of blocks)) is

  pub crowd-history_of : (n b : ℕ)
      → count_by (λ x. bucket_of n x.key.score.0 == b) blocks ≡ crowd score n (history_of blocks) b
  crowd-history_of n b =
      sym (count_by-map accepted (λ e. bucket_of n (score e.block.bytes) == b)
      (λ x. bucket_of n x.key.score.0 == b) blocks
      (λ k d lt. ap (λ own. bucket_of n own == b) (sym (scored k d lt))))
