-- What a receiver that names messages does with a token. No public clause cites this module.
use Rattle.std.specs.Prelude.{◌≡◌, ◌<◌, ◌≤◌, suc, [], ◌∷◌, length, slice_set}
use Rattle.strm_mblk.specs.declared.token.TokenValue.{TokenValue}
use Rattle.strm_named.specs.declared.naming.Naming.{Naming}
use Rattle.strm_named.specs.Stamps.{name_in, with_tokens}

-- The message of a token got a name, which went to the next place of the slice, if there is one.
pub record NamesToken (old : Naming) (t : TokenValue) (new : Naming) : Type 0 where
  pub same_stamps : new.stamps.ghost_name ≡ old.stamps.ghost_name
  pub same_names : new.names.ghost_name ≡ old.names.ghost_name
  pub stamps : new.stamps.now.items ≡ with_tokens (t ∷ []) old.stamps.now.items
  pub names : new.names.now ≡ slice_set old.names.now old.count (name_in new.stamps.now.items t)
  pub count : old.count < length old.names.now → new.count ≡ suc old.count
  pub full : length old.names.now ≤ old.count → new.count ≡ old.count
