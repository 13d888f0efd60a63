-- The forms of types that rules ask for.
use Rattle.std.specs.Prelude.{ℕ, ◌≡◌}
use Rattle.stream_type.specs.StreamType.{StreamType, cat, par, sum, star}
use Rattle.core_term.specs.Parts.{par_left, par_right, cat_first, cat_second, sum_left, sum_right, star_item, star_items}
use Rattle.core_term.specs.Typing.{Context, HasForm, type_at}
use Rattle.kept_check.specs.declared.forms.Form.{Form}
use Rattle.kept_check.specs.declared.forms.Form.TheVariants.{Par, Cat, Sum, Star}

-- a type in the form: it is the type itself where that has the form
abbrev pub in_form : Form → StreamType → StreamType
in_form Par t = par (par_left t) (par_right t)
in_form Cat t = cat (cat_first t) (cat_second t)
in_form Sum t = sum (sum_left t) (sum_right t)
in_form Star t = star (star_item t)

-- its parts: of a star an item, and the items after it
abbrev pub first_in : Form → StreamType → StreamType
first_in Par t = par_left t
first_in Cat t = cat_first t
first_in Sum t = sum_left t
first_in Star t = star_item t

abbrev pub second_in : Form → StreamType → StreamType
second_in Par t = par_right t
second_in Cat t = cat_second t
second_in Sum t = sum_right t
second_in Star t = star_items t

-- the type has the form, and these are its parts
pub record AreParts (form : Form) (t s r : StreamType) : Type 0 where
  pub whole : t ≡ in_form form t
  pub first : s ≡ first_in form t
  pub second : r ≡ second_in form t

-- the type of the stream z has the form, and these are its parts
pub record ArePartsAt (form : Form) (c : Context) (z : ℕ) (s r : StreamType) : Type 0 where
  pub whole : HasForm c z (in_form form (type_at c z))
  pub first : s ≡ first_in form (type_at c z)
  pub second : r ≡ second_in form (type_at c z)
