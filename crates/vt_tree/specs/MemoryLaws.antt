-- Laws of the store of blocks in memory.
use Rattle.std.proofs.Common.{◌≡◌, ℕ, ◌≤◌, cond, Option, Some, None, Ok, Err, List, [], ◌∷◌, ◌++◌, length, take, drop, take-append-drop, refl, sym, ◌∙◌, ap, subst, arith, length-append}
use Rattle.std.specs.Prelude.{is_some, Contains, ◌<◌}
use Rattle.std.proofs.lemmas.List.{take_all, take-append-le}
use Rattle.vt_model.specs.History.{Block}
use Rattle.vt_tree.specs.Calls.{Call, get, put, sync, TellsOfMap, after}
use Rattle.vt_tree.specs.Maps.{BlockMap, Maps, no_blocks, with_block, HasNoOther, IsWithin, IsWriteOnce}
use Rattle.vt_tree.specs.MapLaws.{Same, block_same, blocks_join, blocks_keep, block_again, once_with}
use Rattle.vt_tree.specs.Memory.{BlocksMemory, map_of, held_in, HoldsInMemory, DoesInMemory, blocks_after, synced_after}

module _ (score_of : List ℕ → List ℕ) where
  -- an answer that is true of a map is true of an equal one
  tells_same : (a b : BlockMap) (call : Call) → Same a b → TellsOfMap score_of b call
      → TellsOfMap score_of a call
  tells_same a b (get kind s (Ok bytes)) same tells = same s kind ∙ tells
  tells_same a b (get kind s (Err err)) same tells = λ refused. same s kind ∙ tells refused
  tells_same a b (put x (Ok score)) same tells =
      λ kind bytes has. tells kind bytes (sym (same (score_of x.bytes) kind) ∙ has)
  tells_same a b (put x (Err err)) same tells = tt
  tells_same a b (sync answer) same tells = tt

  -- where the blocks, and how many are synced, stay, the maps do
  stays : (m m' : BlocksMemory) (maps : Maps) → HoldsInMemory score_of m maps
      → m'.blocks ≡ m.blocks → m'.synced ≡ m.synced → m'.refusing ≡ []
      → HoldsInMemory score_of m' maps
  stays m m' maps holds blocks synced honest = record {
    held = λ s kind. holds.held s kind
        ∙ ap (λ (bs : List Block). map_of score_of bs s kind) (sym blocks);
    synced = λ s kind. holds.synced s kind
        ∙ (λ i. map_of score_of (take (sym synced i) (sym blocks i)) s kind);
    write_once = subst (λ (bs : List Block). IsWriteOnce score_of (map_of score_of bs))
        (sym blocks) holds.write_once;
    within = subst (λ (n : ℕ). n ≤ length m'.blocks) (sym synced)
        (subst (λ (bs : List Block). m.synced ≤ length bs) (sym blocks) holds.within);
    honest = honest;
  }

  -- a block that wasn't there stands at the end
  takes_new : (m m' : BlocksMemory) (b : Block) (maps : Maps) → HoldsInMemory score_of m maps
      → HasNoOther score_of (held_in score_of m) b
      → m'.blocks ≡ m.blocks ++ b ∷ [] → m'.synced ≡ m.synced → m'.refusing ≡ []
      → HoldsInMemory score_of m' (record maps { held = with_block score_of b maps.held })
  takes_new m m' b maps holds alone blocks synced honest =
      let joined : map_of score_of (m.blocks ++ b ∷ [])
      ≡ with_block score_of b (held_in score_of m) =
      blocks_join score_of m.blocks (b ∷ []) (no_blocks score_of) in
      let all : map_of score_of m'.blocks ≡ with_block score_of b (held_in score_of m) =
      ap (map_of score_of) blocks ∙ joined in
      record {
        held = λ s kind.
            block_same score_of b maps.held (held_in score_of m) holds.held s kind
            ∙ ap (λ (f : BlockMap). f s kind) (sym all);
        synced = λ s kind. holds.synced s kind
            ∙ ap (λ (bs : List Block). map_of score_of bs s kind)
            (sym ((λ i. take (synced i) (blocks i))
            ∙ take-append-le m.synced m.blocks (b ∷ []) holds.within));
        write_once = subst (IsWriteOnce score_of) (sym all)
            (once_with score_of b (held_in score_of m) holds.write_once alone);
        within = omega (
          arith,
          ap length blocks,
          length-append m.blocks (b ∷ []),
          synced,
          holds.within,
        );
        honest = honest;
      }

  -- one that was there changes nothing
  takes_again : (m m' : BlocksMemory) (b : Block) (maps : Maps) (bytes : List ℕ)
      → HoldsInMemory score_of m maps
      → held_in score_of m (score_of b.bytes) b.kind ≡ Some bytes
      → m'.blocks ≡ m.blocks → m'.synced ≡ m.synced → m'.refusing ≡ []
      → HoldsInMemory score_of m' (record maps { held = with_block score_of b maps.held })
  takes_again m m' b maps bytes holds has blocks synced honest =
      let same = stays m m' maps holds blocks synced honest in
      let again = block_again score_of b maps.held bytes
      (holds.held (score_of b.bytes) b.kind ∙ has) in
      record {
        held = λ s kind. again s kind ∙ same.held s kind;
        synced = same.synced;
        write_once = same.write_once;
        within = same.within;
        honest = honest;
      }

  -- either way
  is_taken : (m m' : BlocksMemory) (b : Block) (maps : Maps) → HoldsInMemory score_of m maps
      → HasNoOther score_of (held_in score_of m) b
      → m'.blocks
      ≡ cond (is_some (held_in score_of m (score_of b.bytes) b.kind)) m.blocks (m.blocks ++ b ∷ [])
      → m'.synced ≡ m.synced → m'.refusing ≡ [] → (found : Option (List ℕ))
      → held_in score_of m (score_of b.bytes) b.kind ≡ found
      → HoldsInMemory score_of m' (record maps { held = with_block score_of b maps.held })
  is_taken m m' b maps holds alone blocks synced honest (Some bytes) is =
      takes_again m m' b maps bytes holds is
      (blocks ∙ ap (λ (o : Option (List ℕ)). cond (is_some o) m.blocks (m.blocks ++ b ∷ [])) is)
      synced honest
  is_taken m m' b maps holds alone blocks synced honest None is =
      takes_new m m' b maps holds alone
      (blocks ∙ ap (λ (o : Option (List ℕ)). cond (is_some o) m.blocks (m.blocks ++ b ∷ [])) is)
      synced honest

  -- all is synced
  syncs : (m m' : BlocksMemory) (maps : Maps) → HoldsInMemory score_of m maps
      → m'.blocks ≡ m.blocks → m'.synced ≡ length m.blocks → m'.refusing ≡ []
      → HoldsInMemory score_of m' (record maps { synced = maps.held })
  syncs m m' maps holds blocks synced honest = record {
    held = λ s kind. holds.held s kind
        ∙ ap (λ (bs : List Block). map_of score_of bs s kind) (sym blocks);
    synced = λ s kind. holds.held s kind
        ∙ ap (λ (bs : List Block). map_of score_of bs s kind)
        (sym ((λ i. take (synced i) (blocks i))
        ∙ take_all (length m.blocks) m.blocks (omega arith)));
    write_once = subst (λ (bs : List Block). IsWriteOnce score_of (map_of score_of bs))
        (sym blocks) holds.write_once;
    within = omega (arith, ap length blocks, synced);
    honest = honest;
  }

  -- no call is refused on demand by one that tells
  none_listed : (m : BlocksMemory) → m.refusing ≡ [] → ¬ Contains m.refusing m.calls
  none_listed m honest listed =
      let among : listed.0 < length m.refusing = listed.1 in omega (arith, ap length honest)

  pub tells : (m m' : BlocksMemory) (call : Call) (maps : Maps) → DoesInMemory score_of m call m'
      → HoldsInMemory score_of m maps
      → TellsOfMap score_of maps.held call × HoldsInMemory score_of m' (after score_of call maps)
  tells m m' call maps does holds =
      let true_of = does.answers.tells (none_listed m holds.honest) in (
        tells_same maps.held (held_in score_of m) call holds.held true_of,
        leaves call true_of does.leaves.blocks does.leaves.synced,
      )
    where
      honest : m'.refusing ≡ []
      honest = does.leaves.refusing ∙ holds.honest

      leaves : (c : Call) → TellsOfMap score_of (held_in score_of m) c
          → m'.blocks ≡ blocks_after score_of m c → m'.synced ≡ synced_after m c
          → HoldsInMemory score_of m' (after score_of c maps)
      leaves (get kind s answer) true_of blocks synced = stays m m' maps holds blocks synced honest
      leaves (put b (Err err)) true_of blocks synced = stays m m' maps holds blocks synced honest
      leaves (sync (Ok done)) true_of blocks synced = syncs m m' maps holds blocks synced honest
      leaves (sync (Err err)) true_of blocks synced = stays m m' maps holds blocks synced honest
      leaves (put b (Ok score)) true_of blocks synced =
          is_taken m m' b maps holds true_of blocks synced honest
          (held_in score_of m (score_of b.bytes) b.kind) refl

  -- the front of a list of blocks has no others
  front_within : (n : ℕ) (blocks : List Block)
      → IsWithin (map_of score_of (take n blocks)) (map_of score_of blocks)
  front_within n blocks s kind bytes has =
      let whole = blocks_join score_of (take n blocks) (drop n blocks) (no_blocks score_of) in
      ap (λ (bs : List Block). map_of score_of bs s kind)
      (sym (take-append-drop n blocks))
      ∙ ap (λ (f : BlockMap). f s kind) whole
      ∙ blocks_keep score_of (drop n blocks) (map_of score_of (take n blocks)) s kind bytes has

  pub synced_is_held : (m : BlocksMemory) (maps : Maps) → HoldsInMemory score_of m maps
      → IsWithin maps.synced maps.held
  synced_is_held m maps holds s kind bytes has =
      holds.held s kind
      ∙ front_within m.synced m.blocks s kind bytes (sym (holds.synced s kind) ∙ has)

  -- an equal map is as much a write-once one
  pub write_once : (m : BlocksMemory) (maps : Maps) → HoldsInMemory score_of m maps
      → IsWriteOnce score_of maps.held
  write_once m maps holds = record {
    scores = λ s kind bytes has.
        holds.write_once.scores s kind bytes (sym (holds.held s kind) ∙ has);
    contents = λ s kind other a b x y.
        holds.write_once.contents s kind other a b (sym (holds.held s kind) ∙ x)
        (sym (holds.held s other) ∙ y);
    zero_score = λ kind. holds.held (score_of []) kind ∙ holds.write_once.zero_score kind;
  }
