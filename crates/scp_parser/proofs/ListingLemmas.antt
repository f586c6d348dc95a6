-- What EXAMINE and DEPOSIT work on: the option, the device and the condition, each of which may be left out, and a list.
use Rattle.std.proofs.Common.{◌≡◌, ℕ, Bool, true, false, Option, Result, Ok, Err, List, refl, ap, sym, ◌∙◌}
use Rattle.std.specs.Option.{is_some}
use Rattle.unit_trait.specs.declared.kind.Kind.{Kind}
use Rattle.operand_forms.specs.declared.listing.Name.{Name}
use Rattle.operand_forms.specs.declared.listing.Condition.{Condition}
use Rattle.operand_forms.specs.declared.listing.Item.{Item}
use Rattle.operand_forms.specs.declared.listing.Listing.{Listing}
use Rattle.scp_parser.specs.declared.fault.ParseFault.{ParseFault}
use Rattle.operand_forms.specs.Forms.{IsCondition, IsDevice, IsList}
use Rattle.operand_forms.specs.Operands.{condition_of, device_of, items_of}
use Rattle.scp_parser.specs.Operands.{symbolic_of}
use Rattle.scp_parser.specs.Grammar.{IsSymbolicOption, MayBeginCondition, Chooses, Lists, IsListing, Takes, name_of}
use Rattle.scp_parser.specs.Faults.{WordFaults, ListFaults, at_list}
use Rattle.scp_parser.specs.Reading.{◌>>=◌, maybe, maybe_condition, needed, Choice, choice, listing_with, listing}
use Rattle.scp_parser.proofs.FormsDecided.{Forms_decided}
use Rattle.operand_forms.proofs.NothingLemmas.{no_device, no_condition, no_items}
use Rattle.scp_parser.proofs.NothingLemmas.{no_symbolic}
use Rattle.scp_parser.proofs.Settles.{Sound, Settles}
use Rattle.scp_parser.proofs.OperandLemmas.{maybe_given, maybe_begins, needed_settles}

abbrev ConditionFound : Type 0
ConditionFound = Option Condition × List ℕ

abbrev choice_with : Option Bool → Option Kind → ConditionFound → Choice
choice_with option kind condition = record { symbolic = is_some option; device = name_of kind; condition = condition.0; rest = condition.1 }

module _ (d : Forms_decided) where
  condition_given : (conditions : Bool) (text rest : List ℕ) (condition : Option Condition) → MayBeginCondition conditions text condition rest → maybe_condition conditions text ≡ (condition, rest)
  condition_given true text rest condition is = maybe_given IsCondition condition_of d.condition no_condition text rest condition is
  condition_given false text rest condition is = ap (λ (c : Option Condition). (c, text)) (sym is.0) ∙ ap (λ (t : List ℕ). (condition, t)) (sym is.1)

  condition_begins : (conditions : Bool) (text : List ℕ) → MayBeginCondition conditions text (maybe_condition conditions text).0 (maybe_condition conditions text).1
  condition_begins true text = maybe_begins IsCondition condition_of d.condition no_condition text
  condition_begins false text = (refl, refl)

  -- what stands before a list

  pub choice_given : (conditions : Bool) (text rest : List ℕ) (symbolic : Bool) (device : Name) (condition : Option Condition) → Chooses conditions text symbolic device condition rest
      → choice conditions text ≡ record { symbolic = symbolic; device = device; condition = condition; rest = rest }
  unfolding choice
  choice_given conditions text rest symbolic device condition is =
      let options = maybe_given IsSymbolicOption symbolic_of d.symbolic no_symbolic text is.behind_option is.option is.options in
      let devices = maybe_given IsDevice device_of d.device no_device is.behind_option is.behind_device is.kind is.devices in
      let chosen = condition_given conditions is.behind_device rest condition is.chosen in
      ap (λ (o : Option Bool × List ℕ). choice_with o.0 (maybe device_of o.1).0 (maybe_condition conditions (maybe device_of o.1).1)) options
      ∙ ap (λ (k : Option Kind × List ℕ). choice_with is.option k.0 (maybe_condition conditions k.1)) devices
      ∙ ap (λ (c : ConditionFound). choice_with is.option is.kind c) chosen
      ∙ ap (λ (s : Bool). record { symbolic = s; device = name_of is.kind; condition = condition; rest = rest }) (sym is.symbols)
      ∙ ap (λ (n : Name). record { symbolic = symbolic; device = n; condition = condition; rest = rest }) (sym is.names)

  pub chooses : (conditions : Bool) (text : List ℕ)
      → Chooses conditions text (choice conditions text).symbolic (choice conditions text).device (choice conditions text).condition (choice conditions text).rest
  unfolding choice
  chooses conditions text =
      let option = maybe symbolic_of text in
      let kind = maybe device_of option.1 in
      record {
        option = option.0;
        kind = kind.0;
        behind_option = option.1;
        behind_device = kind.1;
        options = maybe_begins IsSymbolicOption symbolic_of d.symbolic no_symbolic text;
        devices = maybe_begins IsDevice device_of d.device no_device option.1;
        chosen = condition_begins conditions kind.1;
        symbols = refl;
        names = refl;
      }

  -- the list behind it

  list_settles : (device : Name) (text : List ℕ) → Settles (needed false (items_of device) text) (Takes (IsList device) text) (WordFaults (IsList device) false text)
  list_settles device text = needed_settles (IsList device) (items_of device) (d.items device) (no_items device) false text

  lists_at : Choice → Result (Listing × List ℕ) ParseFault
  lists_at c = needed false (items_of c.device) c.rest >>= listing_with c

  listing_by : (conditions : Bool) (text rest : List ℕ) (symbolic : Bool) (device : Name) (condition : Option Condition) → Chooses conditions text symbolic device condition rest
      → listing conditions text ≡ lists_at (record { symbolic = symbolic; device = device; condition = condition; rest = rest })
  unfolding listing lists_at
  listing_by conditions text rest symbolic device condition is = ap lists_at (choice_given conditions text rest symbolic device condition is)

  listing_reads : (conditions : Bool) (text : List ℕ) (l : Listing × List ℕ) → Lists conditions text l.0 l.1 → listing conditions text ≡ Ok l
  unfolding lists_at
  listing_reads conditions text l is =
      let c : Choice = record { symbolic = l.0.symbolic; device = l.0.device; condition = l.0.condition; rest = is.before } in
      listing_by conditions text is.before l.0.symbolic l.0.device l.0.condition is.chooses
      ∙ ap (λ (r : Result (List Item × List ℕ) ParseFault). r >>= listing_with c) ((list_settles l.0.device is.before).reads (l.0.items, l.1) (is.word, is.begins, is.list))

  listing_faults : (conditions : Bool) (text : List ℕ) (e : ParseFault) → ListFaults conditions text e → listing conditions text ≡ Err e
  unfolding lists_at
  listing_faults conditions text e (at_list symbolic device condition rest _ is faulty) =
      let c : Choice = record { symbolic = symbolic; device = device; condition = condition; rest = rest } in
      listing_by conditions text rest symbolic device condition is
      ∙ ap (λ (r : Result (List Item × List ℕ) ParseFault). r >>= listing_with c) ((list_settles device rest).faults e faulty)

  list_found : (conditions : Bool) (text : List ℕ) (c : Choice) → Chooses conditions text c.symbolic c.device c.condition c.rest → (r : Result (List Item × List ℕ) ParseFault)
      → Sound (Takes (IsList c.device) c.rest) (WordFaults (IsList c.device) false c.rest) r → Sound (IsListing conditions text) (ListFaults conditions text) (r >>= listing_with c)
  list_found conditions text c is (Ok x) takes = record { word = takes.0; before = c.rest; chooses = is; begins = takes.1; list = takes.2 }
  list_found conditions text c is (Err e) faulty = at_list c.symbolic c.device c.condition c.rest e is faulty

  listing_found : (conditions : Bool) (text : List ℕ) → Sound (IsListing conditions text) (ListFaults conditions text) (listing conditions text)
  unfolding listing
  listing_found conditions text =
      let c = choice conditions text in
      list_found conditions text c (chooses conditions text) (needed false (items_of c.device) c.rest) (list_settles c.device c.rest).found

  pub listing_settles : (conditions : Bool) (text : List ℕ) → Settles (listing conditions text) (IsListing conditions text) (ListFaults conditions text)
  listing_settles conditions text = record {
    reads = listing_reads conditions text;
    faults = listing_faults conditions text;
    found = listing_found conditions text;
  }
