-- Blocks that are put, some behind others.
use Rattle.std.proofs.Common.{◌≡◌, Option, None, Ok, Err, List, [], ◌∷◌, ◌++◌, map, refl, sym, ◌∙◌, ap, subst, append_assoc, append-nil}
use Rattle.std.proofs.lemmas.List.{map-append}
use Rattle.vt_base.specs.Protocol.{Operation}
use Rattle.vt_base.specs.declared.score.Score.{Score}
use Rattle.vt_model.specs.History.{Block}
use Rattle.vt_tree.specs.declared.error.BlockErr.{BlockErr}
use Rattle.vt_tree.specs.declared.error.TreeErr.TheVariants as trees
use Rattle.vt_tree.specs.Calls.{Call, put, asked_of, write_of_block}
use Rattle.vt_tree.specs.Making.{EndsBy}
use Rattle.vt_tree.proofs.Appending.{accepted_join, ends_more}
use Rattle.vt_tree.proofs.Making.{makes_more, makes_one}
use Rattle.vac_write.specs.declared.error.VacErr.{VacErr}
use Rattle.vac_write.specs.declared.error.VacErr.TheVariants.{Tree}
use Rattle.vac_write.specs.Archiving.{refusal_of}
use Rattle.vac_write.specs.Puts.{PutsBlocks, GivesUpBlocks}

module _ {S : Type 0} (does : S → Call → S → Type 0) where
  pub puts_none : (s : S) → PutsBlocks does s s []
  puts_none s = record {
    calls = [];
    made = refl;
    accepted = refl;
    puts = refl;
  }

  pub puts_join : (s mid s' : S) (a b : List Block) → PutsBlocks does s mid a
      → PutsBlocks does mid s' b → PutsBlocks does s s' (a ++ b)
  puts_join s mid s' a b first then = record {
    calls = first.calls ++ then.calls;
    made = makes_more does s mid s' first.calls then.calls first.made then.made;
    accepted = accepted_join first.calls then.calls first.accepted then.accepted;
    puts = map-append asked_of first.calls then.calls
        ∙ (λ i. first.puts i ++ then.puts i)
        ∙ sym (map-append write_of_block a b);
  }

  -- nothing was put yet
  pub gives_none : (s : S) (blocks : List Block) (err : VacErr) → refusal_of err ≡ None
      → GivesUpBlocks does s s blocks err
  gives_none s blocks err own = record {
    calls = [];
    made = refl;
    refused = subst (λ (o : Option BlockErr). EndsBy o []) (sym own) refl;
    rest = blocks;
    puts = refl;
  }

  -- some were put before
  pub gives_later : (s mid s' : S) (a b : List Block) (err : VacErr) → PutsBlocks does s mid a
      → GivesUpBlocks does mid s' b err → GivesUpBlocks does s s' (a ++ b) err
  gives_later s mid s' a b err first then = record {
    calls = first.calls ++ then.calls;
    made = makes_more does s mid s' first.calls then.calls first.made then.made;
    refused = ends_more (refusal_of err) first.calls then.calls first.accepted then.refused;
    rest = then.rest;
    puts = ap (λ (l : List Operation). l ++ map write_of_block then.rest)
        (map-append asked_of first.calls then.calls)
        ∙ append_assoc (map asked_of first.calls) (map asked_of then.calls)
        (map write_of_block then.rest)
        ∙ (λ i. first.puts i ++ then.puts i)
        ∙ sym (map-append write_of_block a b);
  }

  -- others were to come behind
  pub gives_front : (s s' : S) (a b : List Block) (err : VacErr) → GivesUpBlocks does s s' a err
      → GivesUpBlocks does s s' (a ++ b) err
  gives_front s s' a b err first = record {
    calls = first.calls;
    made = first.made;
    refused = first.refused;
    rest = first.rest ++ b;
    puts = ap (λ (l : List Operation). map asked_of first.calls ++ l)
        (map-append write_of_block first.rest b)
        ∙ sym (append_assoc (map asked_of first.calls) (map write_of_block first.rest) (map write_of_block b))
        ∙ ap (λ (l : List Operation). l ++ map write_of_block b) first.puts
        ∙ sym (map-append write_of_block a b);
  }

  -- these were put, and then it was given up
  pub gives_after : (s s' : S) (a b : List Block) (err : VacErr) → refusal_of err ≡ None
      → PutsBlocks does s s' a → GivesUpBlocks does s s' (a ++ b) err
  gives_after s s' a b err own first =
      gives_later s s' s' a b err first (gives_none s' b err own)

  -- one block was put, or refused
  pub put_taken : (s s' : S) (b : Block) (score : Score) → does s (put b (Ok score)) s'
      → PutsBlocks does s s' (b ∷ [])
  put_taken s s' b score done = record {
    calls = put b (Ok score) ∷ [];
    made = makes_one does s s' (put b (Ok score)) done;
    accepted = refl;
    puts = refl;
  }

  pub put_refused : (s s' : S) (b : Block) (err : BlockErr) → does s (put b (Err err)) s'
      → GivesUpBlocks does s s' (b ∷ []) (Tree (trees.Block err))
  put_refused s s' b err done = record {
    calls = put b (Err err) ∷ [];
    made = makes_one does s s' (put b (Err err)) done;
    refused = record {
      before = [];
      last = put b (Err err);
      are = refl;
      accepted = refl;
      refused = refl;
    };
    rest = [];
    puts = append-nil (map asked_of (put b (Err err) ∷ []));
  }
