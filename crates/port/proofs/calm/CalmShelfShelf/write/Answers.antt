-- A write to a calm shelf changes the named file and no other.
use Rattle.std.proofs.Common.{refl, sym, ap, ◌∙◌, arith}
use Rattle.port.specs.Files.{held_by}
use Rattle.port.proofs.FirstHolds.{told_same, placed, unplaced, stands_within, set_is_kept, set_is_other, push_holds, push_keeps, is_named, not_named}
use Rattle.port.proofs.calm.CalmShelfShelf.write.Goals as goal

pub index_mut-requires : goal.index_mut-requires
index_mut-requires c =
    let stands = placed c.args.self.now.files.items c.args.name.now c.in-Some.place (sym c.place.ensures ∙ c.in-Some.is) in
    omega (arith, stands_within c.args.self.now.files.items c.args.name.now c.in-Some.place stands, c.args.self.now.files.ok.0)

pub returns-in-Some-clause-kept : goal.returns-in-Some-clause-kept
returns-in-Some-clause-kept c files told =
    let stands = placed c.args.self.now.files.items c.args.name.now c.in-Some.place (sym c.place.ensures ∙ c.in-Some.is) in
    told_same _ files c.args.name.now told
    ∙ (set_is_kept c.args.self.now.files.items c.args.name.now c.in-Some.place (c.index_mut.result.now.0, c.in_ok-bytes.bytes) c.index_mut.result.now stands c.index_mut.ensures.value refl ∙ c.in_ok-bytes.ensures.items)

pub returns-in-Some-clause-others : goal.returns-in-Some-clause-others
returns-in-Some-clause-others c files told =
    let stands = placed c.args.self.now.files.items c.args.name.now c.in-Some.place (sym c.place.ensures ∙ c.in-Some.is) in (
      _,
      refl,
      λ other apart.
          set_is_other c.args.self.now.files.items c.args.name.now other c.in-Some.place (c.index_mut.result.now.0, c.in_ok-bytes.bytes) c.index_mut.result.now stands c.index_mut.ensures.value refl apart
          ∙ sym (told_same _ files other told),
    )

pub returns-in_ok-push-in-None-clause-kept : goal.returns-in_ok-push-in-None-clause-kept
returns-in_ok-push-in-None-clause-kept c files told =
    let nowhere = unplaced c.args.self.now.files.items c.args.name.now (sym c.place.ensures ∙ c.in-None.is) in
    told_same _ files c.args.name.now told
    ∙ (ap (λ files. held_by files c.args.name.now) c.in_ok-push-in-None.ensures.items
    ∙ (push_holds c.args.self.now.files.items c.args.name.now (c.in_ok-from_str-in-None.field-0, c.in_ok-bytes.bytes) nowhere (is_named (c.in_ok-from_str-in-None.field-0, c.in_ok-bytes.bytes) c.args.name.now c.in_ok-from_str-in-None.ensures.ok)
    ∙ c.in_ok-bytes.ensures.items))

pub returns-in_ok-push-in-None-clause-others : goal.returns-in_ok-push-in-None-clause-others
returns-in_ok-push-in-None-clause-others c files told = (
  _,
  refl,
  λ other apart.
      ap (λ files. held_by files other) c.in_ok-push-in-None.ensures.items
      ∙ (push_keeps c.args.self.now.files.items other (c.in_ok-from_str-in-None.field-0, c.in_ok-bytes.bytes) (not_named (c.in_ok-from_str-in-None.field-0, c.in_ok-bytes.bytes) c.args.name.now other c.in_ok-from_str-in-None.ensures.ok apart)
      ∙ sym (told_same _ files other told)),
)
