-- What a view shows: what the rules speak of.
use Rattle.terms.specs.declared.sheet.Settings.{Settings}
use Rattle.rules.specs.Tests.{MemberView}
use Rattle.state.specs.View.{view}
use Rattle.member_view.specs.declared.View.{View}

abbrev pub settings_of : View → Settings
settings_of v = v.state.now.settings

abbrev pub shown : (v : View) → MemberView (settings_of v)
shown v = view v.state.now v.table.now
